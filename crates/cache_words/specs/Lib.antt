pub mod CachedRun
pub mod Either
pub mod Operations
pub mod OperationsLaws
