mod Alike
mod Chains
mod Connectors
mod Counting
mod Dues
mod Firsts
pub mod Heard
pub mod Held
mod Knowing
mod Leading
mod Levels
mod Lines
mod Members
pub mod Openings
pub mod Ordered
mod Orders
pub mod Requests
mod Rising
mod Sequences
pub mod Served
pub mod Steps
pub mod Targets
mod Turning
pub mod Undone
