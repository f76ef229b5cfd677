pub mod HistoryCases
pub mod HistoryLaws
pub mod Release
pub mod ReleaseCases
pub mod StepLaws
pub mod Told
pub mod ToldCases
