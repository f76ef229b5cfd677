pub mod EntryLaws
pub mod FootprintLaws
pub mod GapLaws
mod MarkingLaws
pub mod MarksLaws
pub mod PutLaws
pub mod ReachLaws
pub mod TableLaws
