pub mod Partitions
pub mod Residuals
pub mod Fields
pub mod Macroblocks
pub mod Tiles
