pub mod Read
pub mod Bits
pub mod InnerAnswers
