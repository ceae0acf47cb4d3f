pub mod CallBuilding
pub mod Completeness
pub mod ExprTokens
pub mod FormBuilding
pub mod FormSoundness
pub mod LineSoundness
pub mod TreeBuilding
