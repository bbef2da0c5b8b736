pub mod Types
pub mod Layout
pub mod Faults
pub mod Reading
pub mod Writing
pub mod RoundTrip
pub mod AgainstRules
