pub mod Tree
pub mod Listing
pub mod Shaped
