pub mod Course
pub mod Walks
pub mod Going
