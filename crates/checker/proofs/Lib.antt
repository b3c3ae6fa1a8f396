pub mod Demands
pub mod Entry
pub mod Lending
pub mod Printing
pub mod Refusals
