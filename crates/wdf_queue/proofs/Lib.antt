pub mod Openings
pub mod Places
pub mod Cleared
pub mod Rising
pub mod Presenting
pub mod Sums
