pub mod Prefixes
pub mod Sums
pub mod Noted
pub mod Stories
pub mod Seats
pub mod Steps
