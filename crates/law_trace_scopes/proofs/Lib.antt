pub mod Stacks
pub mod Holding
pub mod Frames
pub mod Scopes
