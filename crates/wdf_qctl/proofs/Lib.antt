pub mod Closing
mod Due
