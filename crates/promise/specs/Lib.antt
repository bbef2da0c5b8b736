pub mod History
pub mod Promise
pub mod Seen
pub mod Link
pub mod Nodes
