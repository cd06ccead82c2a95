pub mod Endings
pub mod Ties
