pub mod Backward
pub mod Columns
pub mod Onward
pub mod Readers
pub mod Pieces
pub mod Marks
pub mod Parted
