pub mod Lines
pub mod Bare
pub mod Agents
