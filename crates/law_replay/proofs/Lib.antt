pub mod Cut
pub mod Whole
pub mod Fitting
pub mod Scenes
pub mod Plans
pub mod OneVerdict
pub mod Exactly
pub mod Written
