pub mod Record
pub mod Write
pub mod Parse
pub mod Range
pub mod InnerRecord
pub mod InnerSides
