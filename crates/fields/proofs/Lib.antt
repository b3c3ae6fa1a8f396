pub mod Laws
pub mod Runs
pub mod Ranges
pub mod Words
