pub mod Chord
pub mod Meant
pub mod Steps
