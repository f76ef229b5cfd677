pub mod Feed
pub mod InText
pub mod Promise
