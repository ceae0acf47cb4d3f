pub mod Dpcs
pub mod Floors
pub mod Reached
pub mod Ticks
pub mod Timers
pub mod WorkItems
