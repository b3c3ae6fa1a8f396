pub mod Promises
pub mod Request
