pub mod Edits
pub mod Reach
