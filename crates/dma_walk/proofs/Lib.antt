pub mod LoopLaws
pub mod StepLaws
mod TouchLaws
mod TranslateLaws
pub mod TurnLaws
