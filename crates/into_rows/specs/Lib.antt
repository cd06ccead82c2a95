pub mod Entry
pub mod Plain
pub mod Tables
