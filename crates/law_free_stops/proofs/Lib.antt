pub mod Ways
pub mod Near
pub mod Stops
pub mod FreeStops
pub mod Alone
