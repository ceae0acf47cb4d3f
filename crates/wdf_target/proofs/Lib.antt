pub mod Sendings
pub mod Nexts
pub mod Kept
pub mod Acts
pub mod Openings
pub mod Noting
