pub mod Leaving
pub mod Inside
pub mod Refusal
pub mod Kin
pub mod GoFirst
pub mod Turns
pub mod Gathering
