pub mod Part
pub mod Signed
