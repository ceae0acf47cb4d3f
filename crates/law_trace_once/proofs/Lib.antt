pub mod Words
pub mod Completions
pub mod Lasting
pub mod Ends
pub mod Untouched
pub mod Cleanups
pub mod Uncounted
pub mod References
