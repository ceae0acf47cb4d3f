pub mod Last
pub mod Maps
pub mod Keys
pub mod Kin
pub mod Groups
pub mod Order
pub mod Past
pub mod Tables
