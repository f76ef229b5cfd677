pub mod Demand
pub mod Release
