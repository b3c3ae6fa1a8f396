pub mod Contract
pub mod Counts
