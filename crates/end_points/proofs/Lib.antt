pub mod Cut
pub mod Kept
pub mod Past
pub mod Telling
