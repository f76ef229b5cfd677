pub mod Corollaries
pub mod Isolation
pub mod Labels
pub mod Machine
pub mod Unwind
pub mod View
