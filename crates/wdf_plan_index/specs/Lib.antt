pub mod Belongings
pub mod Handlers
pub mod Keys
pub mod Owners
pub mod Places
pub mod Serving
pub mod Tables
