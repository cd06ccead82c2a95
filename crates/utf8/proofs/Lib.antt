pub mod Front
pub mod Results
pub mod Theorems
pub mod Turns
