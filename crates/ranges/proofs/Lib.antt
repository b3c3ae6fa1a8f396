pub mod Lists
pub mod Sound
pub mod Good
pub mod Conditions
pub mod Contracts
pub mod Lines
pub mod Accepted
pub mod Reading
