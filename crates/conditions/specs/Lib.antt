pub mod Words
pub mod Condition
