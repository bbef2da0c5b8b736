pub mod Received
pub mod Lending
