pub mod Legality
pub mod Claims
pub mod Settled
