pub mod Made
pub mod Replaying
pub mod Roomed
