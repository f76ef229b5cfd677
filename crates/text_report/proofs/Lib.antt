pub mod DigitLaws
pub mod FreeLaws
pub mod PaddedLaws
pub mod WriteLaws
pub mod WrittenLaws
