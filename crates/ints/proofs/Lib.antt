-- The law sets and laws, for this crate and those above it.
pub mod Fits
pub mod Same
pub mod Linear
pub mod Laws
pub mod Words
pub mod Made
