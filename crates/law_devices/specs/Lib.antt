pub mod Shown
pub mod Agents
pub mod Posting
