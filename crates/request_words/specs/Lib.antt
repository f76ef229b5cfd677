pub mod Layout
pub mod Run
pub mod RunIsolation
pub mod RunOfList
pub mod RunRelease
