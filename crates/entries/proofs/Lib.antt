pub mod Changed
pub mod Fits
pub mod Laws
pub mod Stored
