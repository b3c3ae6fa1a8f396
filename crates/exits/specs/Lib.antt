pub mod Costs
pub mod Made
