pub mod Words
pub mod Laws
pub mod Agents
pub mod Descents
