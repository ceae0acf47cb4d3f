pub mod DpcLists
pub mod LeastTick
pub mod QueuedWork
pub mod Reaching
pub mod TimersOfSet
pub mod TimersThatFire
