pub mod Computed
pub mod Writing
pub mod Cases
