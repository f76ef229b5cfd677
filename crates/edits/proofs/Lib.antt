pub mod EditsCases
pub mod EditsLaws
pub mod ReachLaws
