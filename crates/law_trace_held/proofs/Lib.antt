pub mod Holdings
pub mod HeldAsTold
pub mod HeldByCalls
pub mod HoldingsOverRuns
pub mod Settled
pub mod StillSuch
pub mod StillAcked
pub mod AckedAsTold
