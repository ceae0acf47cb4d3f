pub mod Agents
pub mod Spans
pub mod Line
