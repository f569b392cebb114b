pub mod Blocks
pub mod Fields
pub mod Padded
pub mod Records
pub mod Lengths
pub mod Examples
pub mod SideBytes
pub mod Answers
