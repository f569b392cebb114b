pub mod Replay
pub mod InnerRecorded
pub mod InnerStepped
