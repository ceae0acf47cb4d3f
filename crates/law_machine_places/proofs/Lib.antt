pub mod Members
pub mod Rows
pub mod Found
pub mod Listed
pub mod Exactly
