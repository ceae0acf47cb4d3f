mod BrokenLists
pub mod StackRuns
mod LastRuns
