pub mod Beyond
pub mod Leasts
pub mod Counting
pub mod Passing
pub mod PlacesOfKeys
pub mod EntriesById
