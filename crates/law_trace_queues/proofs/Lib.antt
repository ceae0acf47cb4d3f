pub mod Ups
pub mod Returning
pub mod Resuming
pub mod Dues
pub mod Steps
pub mod Laws
