pub mod Eight
pub mod Alike
pub mod Rows
pub mod Slots
pub mod Gathered
