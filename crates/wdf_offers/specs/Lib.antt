pub mod Idle
pub mod Search
pub mod Leaving
pub mod ForRequests
pub mod Lesser
pub mod Parked
pub mod Resting
pub mod Ahead
