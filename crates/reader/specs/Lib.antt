pub mod Passed
pub mod Started
pub mod Answered
pub mod Result
pub mod Lent
