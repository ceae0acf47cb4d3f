pub mod Finding
pub mod Gathering
pub mod Handling
pub mod Linking
pub mod Owning
pub mod Placing
pub mod Walking
