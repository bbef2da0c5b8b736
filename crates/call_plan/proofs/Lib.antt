pub mod Stepping
pub mod Singly
