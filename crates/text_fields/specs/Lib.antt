pub mod Fields
pub mod NamePlace
pub mod Place
