pub mod Book
pub mod View
pub mod Fit
pub mod Cells
pub mod Does
pub mod Steps
