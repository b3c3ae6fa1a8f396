pub mod Reading
pub mod Sheet
pub mod Stands
pub mod Ranges
pub mod Sums
pub mod Order
pub mod Shapes
