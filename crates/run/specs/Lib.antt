pub mod Calls
pub mod Run
pub mod Left
pub mod InnerCalls
pub mod InnerLeft
