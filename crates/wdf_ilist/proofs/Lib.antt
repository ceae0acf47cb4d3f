pub mod Items
pub mod Lists
pub mod Places
mod Paths
mod Changes
pub mod Zeros
mod Joins
mod Sound
mod Read
mod Acts
