pub mod AskLaws
mod EntryLaws
