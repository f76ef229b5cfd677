pub mod LentLaws
mod OperateLaws
