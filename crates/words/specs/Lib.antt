pub mod Words
pub mod Voices
pub mod Reports
pub mod Lent
pub mod Meant
pub mod Heads
pub mod Counted
pub mod Left
