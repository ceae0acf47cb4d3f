pub mod Readers
pub mod Waking
pub mod Walking
pub mod Least
pub mod Listing
pub mod Low
pub mod ForQueues
