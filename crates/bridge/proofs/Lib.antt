mod CachedLaws
pub mod RunLaws
