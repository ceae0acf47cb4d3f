pub mod Open
pub mod Left
pub mod Causes
pub mod Caused
