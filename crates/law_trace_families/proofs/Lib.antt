pub mod Stays
pub mod Telling
pub mod Families
pub mod Gone
pub mod Orders
pub mod Undone
pub mod Drained
