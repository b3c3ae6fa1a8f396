pub mod Steps
pub mod Again
pub mod Sharing
pub mod Rest
