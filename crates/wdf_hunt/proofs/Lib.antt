pub mod Ranges
pub mod Told
pub mod Explained
pub mod Added
pub mod Suites
pub mod Stories
