pub mod Refusal
pub mod Got
pub mod Format
pub mod Until
pub mod Answered
