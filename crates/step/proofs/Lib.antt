pub mod Taken
pub mod Entered
pub mod Heard
