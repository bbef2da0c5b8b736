pub mod Cut
pub mod Every
mod Past
pub mod Places
pub mod Good
