pub mod Spelled
pub mod Stories
pub mod Seeds
