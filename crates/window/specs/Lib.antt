pub mod Numbers
pub mod Marks
pub mod Windows
pub mod Law
