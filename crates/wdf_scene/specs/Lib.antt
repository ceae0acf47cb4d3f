pub mod Blocks
pub mod Change
pub mod Naming
pub mod Scene
pub mod Words
pub mod Written
