pub mod Comparing
pub mod Saving
pub mod Tables
