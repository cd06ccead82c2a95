pub mod Back
pub mod Reports
pub mod Voices
pub mod Places
