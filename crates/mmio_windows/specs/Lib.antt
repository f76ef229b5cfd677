pub mod Size
pub mod Takes
