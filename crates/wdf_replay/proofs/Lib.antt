pub mod RunLines
pub mod Replayed
pub mod Taken
pub mod Complete
pub mod AfterEvents
