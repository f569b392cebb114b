pub mod Number
pub mod SignedNumber
