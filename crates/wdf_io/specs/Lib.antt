-- What the contracts of sources and sinks cite.
pub mod Outside
pub mod Memory
pub mod Streams
