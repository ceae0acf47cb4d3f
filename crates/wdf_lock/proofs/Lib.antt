pub mod SameLocks
pub mod Finding
pub mod Keeping
mod Taking
