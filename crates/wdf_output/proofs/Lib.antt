pub mod Sinks
pub mod Messages
pub mod Writing
