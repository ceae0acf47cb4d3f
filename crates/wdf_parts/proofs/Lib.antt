pub mod InTurn
pub mod Walks
