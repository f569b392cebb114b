pub mod Z
pub mod InnerHeld
