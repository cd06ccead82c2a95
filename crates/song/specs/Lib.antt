pub mod Version
pub mod Info
pub mod Setup
