pub mod Words
pub mod Sums
pub mod Explained
pub mod Answers
pub mod Cases
pub mod Suites
