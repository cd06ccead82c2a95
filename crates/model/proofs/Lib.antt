pub mod Fits
pub mod KindLaws
pub mod MarksLaws
pub mod Digits
pub mod Rest
