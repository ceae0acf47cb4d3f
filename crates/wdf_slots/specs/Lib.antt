pub mod InSlots
pub mod Lends
