pub mod Renewing
pub mod Queue
pub mod Reaching
