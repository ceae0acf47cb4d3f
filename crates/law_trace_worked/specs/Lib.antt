pub mod Found
pub mod Damaged
