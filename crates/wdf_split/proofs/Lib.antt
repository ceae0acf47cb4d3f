pub mod Marks
pub mod Parting
