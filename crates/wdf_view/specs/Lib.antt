pub mod Words
pub mod Formed
pub mod Causes
pub mod Views
