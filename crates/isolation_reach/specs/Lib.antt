pub mod Footprint
pub mod Marks
pub mod Room
