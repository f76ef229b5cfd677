pub mod Drops
pub mod Turn
