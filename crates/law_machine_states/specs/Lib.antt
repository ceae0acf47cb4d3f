pub mod States
pub mod Courses
pub mod Settled
pub mod Naming
pub mod Making
