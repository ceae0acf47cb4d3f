pub mod Clock
pub mod Moves
