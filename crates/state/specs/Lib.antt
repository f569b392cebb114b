pub mod Questions
pub mod State
pub mod InnerSizes
