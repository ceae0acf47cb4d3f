pub mod Power
pub mod Held
pub mod Kept
pub mod ForQueues
