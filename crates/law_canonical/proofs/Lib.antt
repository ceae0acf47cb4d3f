pub mod Scenes
pub mod Refusals
pub mod Numbers
pub mod Parts
pub mod Scripts
pub mod Plans
pub mod Order
pub mod Canonical
