pub mod Same
pub mod Sent
pub mod Settled
