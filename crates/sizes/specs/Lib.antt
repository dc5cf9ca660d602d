pub mod Answer
pub mod Claims
