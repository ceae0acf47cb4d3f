pub mod Devices
pub mod Interrupts
pub mod Stepping
