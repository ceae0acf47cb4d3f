pub mod Lists
pub mod Pending
pub mod Words
pub mod Laws
pub mod Firsts
