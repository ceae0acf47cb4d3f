pub mod Acting
pub mod Gathering
pub mod Mapping
pub mod Owning
