pub mod Covers
pub mod Group
pub mod Seen
pub mod SeenAlike
