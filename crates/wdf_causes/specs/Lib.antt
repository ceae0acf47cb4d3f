pub mod Asked
pub mod Keepers
