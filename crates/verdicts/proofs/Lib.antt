pub mod Verdicts
pub mod Parties
