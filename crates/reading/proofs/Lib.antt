pub mod Groups
pub mod Order
pub mod Formed
pub mod Reading
pub mod Sizes
