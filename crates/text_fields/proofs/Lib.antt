pub mod FieldsLaws
pub mod NameLaws
pub mod NamePlaceLaws
pub mod NumberInLaws
pub mod PlaceLaws
pub mod PlaceReadLaws
pub mod ReadLaws
