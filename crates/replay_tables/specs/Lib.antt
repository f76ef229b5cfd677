pub mod Lent
pub mod Promise
pub mod Whole
