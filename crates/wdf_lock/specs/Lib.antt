pub mod Holders
pub mod InHolders
pub mod Holds
pub mod Kept
