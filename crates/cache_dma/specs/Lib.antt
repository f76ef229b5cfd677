pub mod Quick
pub mod Went
