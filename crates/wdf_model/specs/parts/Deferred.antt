-- Deferred work: DPCs, work items and timers. (KMDF)
pub mod Dpcs
pub mod WorkItems
pub mod Timers
