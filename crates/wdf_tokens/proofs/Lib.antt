pub mod KeywordLaws
pub mod LexedTokens
pub mod LineReading
pub mod Respelling
pub mod ShortWords
