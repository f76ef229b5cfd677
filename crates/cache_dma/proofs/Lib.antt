mod CacheDmaLaws
pub mod QuickLaws
