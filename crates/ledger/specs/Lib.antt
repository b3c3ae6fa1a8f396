pub mod Values
pub mod Hands
