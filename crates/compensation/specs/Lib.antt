pub mod Formula
pub mod Sample
pub mod Block
pub mod InnerBlock
pub mod InnerKernel
pub mod InnerLanes
pub mod InnerTaps
