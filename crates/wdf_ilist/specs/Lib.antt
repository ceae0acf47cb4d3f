pub mod Family
pub mod Places
pub mod Padded
pub mod Tables
pub mod Links
