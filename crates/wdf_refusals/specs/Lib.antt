pub mod First
pub mod Heritage
pub mod Limits
pub mod Names
pub mod Numbered
pub mod Numbers
pub mod Rows
