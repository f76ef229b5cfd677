pub mod OpenLaws
pub mod Powers
pub mod RouteLaws
