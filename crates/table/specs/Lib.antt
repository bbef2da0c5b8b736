pub mod Layout
pub mod Areas
pub mod Rules
pub mod Laws
