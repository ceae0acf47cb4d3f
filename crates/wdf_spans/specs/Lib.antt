pub mod Starts
pub mod Births
pub mod Bands
pub mod Words
