pub mod Filling
pub mod Opening
pub mod Claims
pub mod Settled
