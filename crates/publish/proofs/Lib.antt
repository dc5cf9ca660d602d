pub mod Publication
pub mod Settled
