pub mod Lists
pub mod Scenes
pub mod Plans
pub mod Deeds
pub mod Ready
pub mod Alike
pub mod Runs
pub mod Agents
