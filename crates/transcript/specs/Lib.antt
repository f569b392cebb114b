pub mod Written
pub mod InnerSent
pub mod InnerParsing
pub mod InnerReceived
pub mod InnerPlace
pub mod Records
pub mod Check
