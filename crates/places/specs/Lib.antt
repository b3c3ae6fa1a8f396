pub mod Places
pub mod Counting
