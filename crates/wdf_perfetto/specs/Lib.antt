pub mod Titles
pub mod Rows
