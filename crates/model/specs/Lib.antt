pub mod Kinds
pub mod Marks
pub mod Answers
