pub mod LentCases
pub mod LentLaws
pub mod RoomLaws
pub mod SetLaws
pub mod SizeLaws
pub mod TableLaws
