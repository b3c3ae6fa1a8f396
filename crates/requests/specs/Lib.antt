pub mod Commitment
pub mod LastPart
pub mod Part
pub mod RowLine
pub mod Rows
