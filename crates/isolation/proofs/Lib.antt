pub mod Bridges
pub mod Corollaries
pub mod Isolation
pub mod Labels
pub mod Needed
pub mod Unwind
pub mod ViewLaws
pub mod Witness
