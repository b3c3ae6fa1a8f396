pub mod Costing
pub mod Ranking
pub mod Buffer
pub mod Told
