pub mod Fitting
pub mod Lookup
