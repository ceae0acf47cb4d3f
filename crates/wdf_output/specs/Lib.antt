pub mod Said
pub mod Refusals
pub mod Endings
