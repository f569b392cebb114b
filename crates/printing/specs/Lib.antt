pub mod Header
pub mod Text
pub mod Print
