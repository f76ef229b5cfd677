pub mod CachedRunLaws
pub mod Either
pub mod OperationsCases
pub mod OperationsLaws
