pub mod Ready
pub mod Once
pub mod Looked
