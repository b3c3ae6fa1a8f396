pub mod Written
pub mod Writable
pub mod Requests
pub mod Back
