pub mod Appending
pub mod Reading
pub mod Whole
