pub mod Room
pub mod Faults
