pub mod Passed
pub mod Standing
