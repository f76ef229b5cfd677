pub mod DropsLaws
mod SweepLaws
pub mod TurnLaws
