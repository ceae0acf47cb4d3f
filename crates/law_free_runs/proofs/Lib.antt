pub mod FreeRuns
pub mod Places
pub mod FreeStates
