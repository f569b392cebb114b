-- The laws of this crate.
pub mod Mixes
pub mod Lanes
pub mod Taps
pub mod Runs
pub mod Wide
pub mod Split
pub mod Sides
pub mod Between
pub mod Multipliers
pub mod Examples
