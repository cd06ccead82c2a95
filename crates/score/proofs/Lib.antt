pub mod Examples
pub mod Facts
pub mod Follow
pub mod Summary
pub mod Files
pub mod Passed
pub mod Standing
