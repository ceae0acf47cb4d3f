pub mod IdleRuns
pub mod Broken
pub mod Longest
