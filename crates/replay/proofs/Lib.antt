pub mod Steps
pub mod Records
pub mod Replays
