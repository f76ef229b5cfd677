pub mod EndLaws
pub mod LineLaws
pub mod OutputLaws
pub mod PartLaws
pub mod RequestLaws
pub mod SessionLaws
pub mod StandingLaws
