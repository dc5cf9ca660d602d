pub mod Recorded
pub mod Marking
