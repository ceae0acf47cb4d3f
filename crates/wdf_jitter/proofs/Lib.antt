pub mod Texts
pub mod Unmoved
