pub mod Values
pub mod Changes
pub mod Events
pub mod Runs
