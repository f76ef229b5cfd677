pub mod CacheCases
pub mod CacheLaws
pub mod ContentsCases
pub mod ContentsLaws
pub mod Opened
pub mod SlotsLaws
