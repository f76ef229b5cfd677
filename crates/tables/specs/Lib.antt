pub mod Lent
pub mod Tables
