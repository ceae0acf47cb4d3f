pub mod CauseWords
pub mod Events
pub mod Reading
pub mod Told
pub mod Verbs
pub mod Waits
