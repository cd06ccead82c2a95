pub mod Rows
pub mod Ranges
