pub mod Teacher
