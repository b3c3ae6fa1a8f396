pub mod Queue
pub mod Leading
pub mod Turning
