pub mod Putting
pub mod Numbers
pub mod Rules
pub mod Keeping
pub mod Whole
