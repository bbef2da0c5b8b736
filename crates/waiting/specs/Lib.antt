pub mod Queues
pub mod Acks
pub mod Port
pub mod Order
