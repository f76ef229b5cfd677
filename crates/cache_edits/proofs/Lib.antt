mod EditLaws
pub mod PromiseLaws
