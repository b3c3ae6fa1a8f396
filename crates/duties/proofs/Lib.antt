pub mod Signing
pub mod Sums
pub mod Secrets
pub mod Payable
