pub mod Events
pub mod Signs
pub mod Words
pub mod Family
pub mod Frames
pub mod Laws
pub mod First
