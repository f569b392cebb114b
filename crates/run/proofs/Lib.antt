pub mod Listing
pub mod CallExamples
pub mod Turns
pub mod Whole
