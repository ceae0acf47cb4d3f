pub mod Arrivals
pub mod Closed
pub mod Closing
pub mod Fresh
pub mod Keys
pub mod ForQueues
pub mod Requests
