pub mod Moved
pub mod Blocks
pub mod Apply
pub mod InnerApplied
pub mod InnerCells
pub mod InnerCoded
pub mod InnerMoved
pub mod InnerSquares
