pub mod Opening
pub mod Setup
