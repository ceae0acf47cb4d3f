pub mod Writing
pub mod Shown
pub mod RunsOfRequests
pub mod RunsOfProcessors
pub mod RunsOfPower
pub mod RunsOfTargets
pub mod RunsOfSerial
