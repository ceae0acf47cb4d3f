pub mod Walks
pub mod Depth
