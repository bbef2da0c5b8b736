pub mod Kinds
pub mod Layout
pub mod Rules
pub mod Laws
