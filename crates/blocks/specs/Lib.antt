pub mod Blocks
pub mod Payloads
pub mod Reading
