pub mod Words
pub mod Runs
pub mod Promises
pub mod Serving
