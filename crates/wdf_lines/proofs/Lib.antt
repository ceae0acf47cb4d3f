pub mod Spaced
pub mod WordSizes
