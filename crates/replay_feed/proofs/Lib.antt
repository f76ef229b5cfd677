pub mod FeedCases
pub mod FeedLaws
pub mod TakeLaws
