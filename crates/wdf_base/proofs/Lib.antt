pub mod Padding
pub mod PlainRead
pub mod WordLaws
pub mod Tests
