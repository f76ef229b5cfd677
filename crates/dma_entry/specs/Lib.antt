pub mod Ask
pub mod Class
