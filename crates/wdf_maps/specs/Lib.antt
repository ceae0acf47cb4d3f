pub mod Least
pub mod Counts
pub mod Places
pub mod Rising
