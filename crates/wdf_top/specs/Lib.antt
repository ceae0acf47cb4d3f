pub mod Agents
pub mod Words
pub mod Answers
pub mod Top
pub mod Causes
pub mod Promises
