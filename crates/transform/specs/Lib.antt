pub mod Tables
pub mod Residual
pub mod ChromaDc
pub mod Added
pub mod InnerArrays
pub mod InnerFour
pub mod InnerPasses
pub mod InnerResidual
