pub mod Watched
pub mod Timed
pub mod First
