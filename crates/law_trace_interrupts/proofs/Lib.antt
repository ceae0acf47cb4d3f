pub mod Alone
pub mod Queues
pub mod Quieted
pub mod Served
pub mod Laws
