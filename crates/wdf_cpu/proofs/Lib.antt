pub mod Numbers
pub mod Swapping
pub mod Passing
pub mod Live
pub mod HeldLevels
pub mod Peaks
pub mod Keeping
pub mod Places
pub mod Counting
pub mod Ticks
pub mod Leasts
mod Nexts
mod Writes
mod Parking
