pub mod Giving
pub mod Before
