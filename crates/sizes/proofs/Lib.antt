pub mod Sizes
pub mod Told
pub mod Claims
pub mod Settled
