pub mod Outcome
pub mod Gives
