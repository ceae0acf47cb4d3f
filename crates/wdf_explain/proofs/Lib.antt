pub mod Backwards
pub mod Pushed
pub mod Rounds
pub mod Walks
