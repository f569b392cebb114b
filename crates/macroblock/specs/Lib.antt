pub mod Decode
pub mod Entry
pub mod InnerSource
