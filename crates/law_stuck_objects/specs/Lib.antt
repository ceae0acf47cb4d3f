pub mod Deleted
pub mod Spinning
