pub mod Ranks
pub mod Order
