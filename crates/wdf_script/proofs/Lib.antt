pub mod Values
pub mod Broken
