pub mod Slot
pub mod Told
pub mod Printed
pub mod Watched
