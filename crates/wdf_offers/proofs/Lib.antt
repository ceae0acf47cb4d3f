pub mod Places
pub mod NotOffered
pub mod Skips
pub mod Passing
pub mod Wider
pub mod Cancels
pub mod Own
pub mod Straight
pub mod AgentsPassed
pub mod Begins
mod DueTimers
mod LastPlace
pub mod Numbered
pub mod Leavers
mod ComingBack
pub mod Herds
pub mod HerdWalk
mod DueRoutines
mod AtRest
mod NoneAhead
