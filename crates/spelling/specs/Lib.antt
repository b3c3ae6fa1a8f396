pub mod Spelled
pub mod Legible
pub mod Spelling
pub mod Requests
