pub mod Refusals
pub mod Bytes
pub mod Sizes
pub mod Limits
