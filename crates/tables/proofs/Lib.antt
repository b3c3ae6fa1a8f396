pub mod Runs
pub mod Sections
pub mod Laws
pub mod SheetOf
pub mod Held
