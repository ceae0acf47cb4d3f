pub mod Notes
pub mod Tokens
pub mod Story
pub mod Turns
pub mod Lending
