pub mod Members
pub mod Words
pub mod Parts
pub mod Counted
pub mod Nexts
pub mod SetOf
