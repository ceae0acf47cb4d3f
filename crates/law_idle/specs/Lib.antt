pub mod Idling
pub mod Law
pub mod First
pub mod Policies
pub mod Resting
