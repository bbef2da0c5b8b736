pub mod Nodes
pub mod Firmware
