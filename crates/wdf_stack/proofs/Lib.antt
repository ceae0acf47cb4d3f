pub mod Finding
pub mod Leading
pub mod Owning
pub mod Placing
pub mod Walking
