pub mod Laws
pub mod Examples
pub mod Signed
pub mod Slots
