pub mod Building
pub mod Forms
pub mod LineTokens
pub mod Reading
pub mod Spelling
