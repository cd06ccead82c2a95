pub mod Sets
pub mod Placing
pub mod Hearing
pub mod Steps
pub mod Walks
pub mod Quiet
