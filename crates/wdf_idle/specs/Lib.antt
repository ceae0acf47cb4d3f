pub mod Parts
pub mod Ahead
pub mod Agents
