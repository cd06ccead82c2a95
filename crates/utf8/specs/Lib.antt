pub mod Answers
pub mod Back
pub mod Characters
pub mod Found
