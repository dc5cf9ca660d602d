pub mod Heard
pub mod Tested
