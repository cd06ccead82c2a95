pub mod Counted
pub mod Passed
pub mod Standing
