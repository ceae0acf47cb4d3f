pub mod Feeds
pub mod Texts
pub mod Framework
pub mod PostNumbers
pub mod Fitting
pub mod Agents
pub mod Values
