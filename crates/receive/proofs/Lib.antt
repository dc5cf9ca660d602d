pub mod Heard
pub mod Settled
