pub mod Ranks
mod Ones
mod Passing
mod Changes
mod Noted
pub mod Nexts
pub mod SetOf
