pub mod Graces
pub mod Notes
