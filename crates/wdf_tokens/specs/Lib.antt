pub mod Keywords
pub mod Named
pub mod TokenTexts
pub mod Tokens
pub mod WellFormed
pub mod WordTokens
