pub mod Every
pub mod Firsts
pub mod Fitting
pub mod Gather
pub mod Heads
pub mod Heritages
pub mod Lookups
