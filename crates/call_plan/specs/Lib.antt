pub mod Planning
pub mod Steps
