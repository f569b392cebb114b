pub mod Painted
pub mod Picture
pub mod Field
pub mod InnerBlock
pub mod InnerField
pub mod InnerLent
pub mod InnerPicture
pub mod InnerRows
