pub mod Finished
pub mod Opened
pub mod Target
pub mod Targets
