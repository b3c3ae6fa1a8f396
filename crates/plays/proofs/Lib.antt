pub mod Events
pub mod Ranges
pub mod Playing
pub mod Stepping
pub mod Turning
pub mod Looping
pub mod Examples
