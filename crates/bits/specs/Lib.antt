pub mod Bits
pub mod Code
pub mod Signed
pub mod InnerPair
pub mod InnerStarts
pub mod InnerWindow
