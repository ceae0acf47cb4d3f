pub mod Extended
pub mod Reading
