pub mod FirstRefusal
pub mod Marks
