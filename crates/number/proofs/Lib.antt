pub mod Numbers
pub mod SignedNumbers
pub mod Examples
pub mod Reading
pub mod I32
