-- The parts of the state, a file each: the record, what is read of it, its acts, its opening.
pub mod Tree
pub mod Cpus
pub mod Locks
pub mod Requests
pub mod Queues
pub mod Control
pub mod Power
pub mod Pnp
pub mod Interrupts
pub mod Deferred
pub mod Targets
