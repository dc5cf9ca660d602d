pub mod Searching
pub mod Claims
pub mod Settled
