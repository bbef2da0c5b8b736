pub mod Good
pub mod Calls
pub mod Reaching
pub mod Corners
pub mod NewNode
