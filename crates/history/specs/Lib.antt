pub mod History
pub mod Release
pub mod Told
