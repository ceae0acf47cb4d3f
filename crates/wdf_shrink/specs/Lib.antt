pub mod Stories
pub mod Texts
