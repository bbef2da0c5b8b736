pub mod Standing
pub mod Independence
