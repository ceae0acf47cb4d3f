pub mod Untimed
pub mod Forms
pub mod Scenes
pub mod Refusals
pub mod Headers
pub mod Parts
pub mod Scripts
pub mod Plans
