pub mod Attribute
pub mod Blocks
pub mod Declarations
pub mod Forms
pub mod Placed
pub mod Reserved
pub mod Variables
pub mod Walk
