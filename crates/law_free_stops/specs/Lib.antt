pub mod StopsWait
pub mod LocksApart
