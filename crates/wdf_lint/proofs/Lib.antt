pub mod SameState
mod Places
mod PathOrder
mod PathTables
mod Adding
mod Searching
mod Best
mod AllFound
