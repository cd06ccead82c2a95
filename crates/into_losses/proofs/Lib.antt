pub mod Counting
pub mod Sums
