pub mod Rules
pub mod Words
pub mod About
pub mod Standings
pub mod Links
pub mod Stories
