pub mod Laws
pub mod Starts
