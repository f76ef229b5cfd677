pub mod ByOwner
