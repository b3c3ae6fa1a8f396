pub mod Saving
pub mod Comparing
pub mod Tables
