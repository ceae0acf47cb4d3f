pub mod Lines
pub mod Sent
pub mod Printing
pub mod Remaining
pub mod Exits
