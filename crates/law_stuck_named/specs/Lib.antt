pub mod Standing
pub mod Owners
pub mod Closing
