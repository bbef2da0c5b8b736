pub mod First
pub mod Digits
pub mod Rows
pub mod Found
