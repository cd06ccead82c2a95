pub mod Picked
pub mod Entering
pub mod Curves
pub mod Drawing
pub mod Gathering
pub mod Gracing
pub mod Rowing
pub mod Straight
