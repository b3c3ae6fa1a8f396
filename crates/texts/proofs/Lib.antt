pub mod Writing
pub mod Coming
pub mod Texts
pub mod Lengths
pub mod Examples
