pub mod LineOne
pub mod Counts
pub mod Definition
pub mod Sheet
