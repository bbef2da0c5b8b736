pub mod Linked
pub mod Ringed
