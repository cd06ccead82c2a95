pub mod Held
pub mod Key
pub mod Slide
pub mod Level
pub mod Bend
pub mod Slots
