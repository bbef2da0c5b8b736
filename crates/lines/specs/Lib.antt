pub mod Lines
pub mod Sink
