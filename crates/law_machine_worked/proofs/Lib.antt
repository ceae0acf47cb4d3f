pub mod Ended
pub mod RunsOfRequests
pub mod RunsOfProcessors
pub mod RunsOfPower
pub mod RunsOfTargets
pub mod RunsOfSerial
