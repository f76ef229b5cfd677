pub mod Output
pub mod Padded
pub mod Placed
pub mod Written
