pub mod IdleRequests
pub mod IdleSequences
pub mod Shown
pub mod Broken
pub mod Longest
