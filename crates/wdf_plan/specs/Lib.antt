pub mod Fitting
pub mod Flow
pub mod Parts
pub mod Plans
pub mod Posts
pub mod Scripts
