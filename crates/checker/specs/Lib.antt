pub mod Demands
pub mod Entry
pub mod Lending
pub mod Refusals
