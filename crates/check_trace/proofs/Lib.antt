pub mod Groups
pub mod Turns
pub mod Upwards
pub mod Numbers
pub mod Broken
pub mod Exactly
