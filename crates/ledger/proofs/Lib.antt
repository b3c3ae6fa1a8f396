pub mod Reading
pub mod Handing
