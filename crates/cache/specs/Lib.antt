pub mod Cache
pub mod Contents
pub mod Slots
