pub mod ByRequester
pub mod Finished
pub mod PastFence
