pub mod Any
pub mod Mark
pub mod Member
