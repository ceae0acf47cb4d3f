pub mod Inside
pub mod List
pub mod Asking
pub mod Again
