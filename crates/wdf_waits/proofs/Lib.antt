pub mod Sections
pub mod Rows
pub mod OnLines
pub mod OnWalks
