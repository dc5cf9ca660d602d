pub mod Tested
pub mod Values
pub mod Rows
pub mod Claims
