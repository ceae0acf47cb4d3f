pub mod Actors
pub mod Alike
pub mod Blocks
pub mod InObjects
pub mod Counts
pub mod Sides
