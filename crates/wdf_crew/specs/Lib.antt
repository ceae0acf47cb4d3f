pub mod Calls
pub mod Crews
pub mod Rows
