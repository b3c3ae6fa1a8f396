pub mod Promised
pub mod Judged
pub mod Buffer
