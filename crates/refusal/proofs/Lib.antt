pub mod Formats
pub mod Local
pub mod Lists
pub mod Answered
pub mod Parts
