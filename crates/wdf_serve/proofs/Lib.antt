pub mod Forms
pub mod Ended
pub mod Promised
pub mod Serving
