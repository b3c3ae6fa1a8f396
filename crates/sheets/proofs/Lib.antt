pub mod Indexing
pub mod Bits
pub mod Chains
