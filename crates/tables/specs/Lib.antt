pub mod Codes
pub mod Kinds
pub mod Entries
pub mod State
pub mod SheetOf
