pub mod Passing
pub mod Ends
