pub mod Actions
pub mod Ahead
pub mod Agents
