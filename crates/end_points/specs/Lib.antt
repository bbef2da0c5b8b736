pub mod Ends
pub mod Heads
pub mod States
pub mod Runs
pub mod Lent
pub mod Answers
