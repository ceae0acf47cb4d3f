pub mod Passing
pub mod Turns
