pub mod Starts
pub mod Named
