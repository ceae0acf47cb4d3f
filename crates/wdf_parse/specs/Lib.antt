pub mod Canonical
pub mod Laws
pub mod Picking
pub mod Printing
pub mod Standing
pub mod StandsFor
pub mod Texts
