pub mod Changes
pub mod Concerning
pub mod Gathering
pub mod Numbered
