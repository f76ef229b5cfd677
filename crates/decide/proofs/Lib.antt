mod AskLaws
pub mod DecideLaws
mod FencedLaws
pub mod FinishedLaws
mod FormLaws
