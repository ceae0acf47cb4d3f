-- What the contracts of text code cite.
pub mod Decimals
