pub mod Check
pub mod Entries
