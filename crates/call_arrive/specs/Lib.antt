pub mod Arriving
pub mod Faults
