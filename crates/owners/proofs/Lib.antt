pub mod ByOwnerLaws
