pub mod Judged
pub mod Settled
