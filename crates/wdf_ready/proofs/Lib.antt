pub mod InBlocks
mod Skipped
pub mod Grouping
pub mod EmptyCpus
pub mod AnyOf
pub mod Kept
mod Undeclared
pub mod Counting
pub mod Decided
pub mod SidesOfGroups
