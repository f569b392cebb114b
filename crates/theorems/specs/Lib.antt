pub mod Trace
pub mod Unique
pub mod Samples
pub mod Outside
