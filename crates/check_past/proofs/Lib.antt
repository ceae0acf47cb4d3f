pub mod Words
pub mod Keys
pub mod Putting
pub mod Telling
pub mod Steps
pub mod Groups
