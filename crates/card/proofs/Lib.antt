pub mod Wall
pub mod Counting
pub mod Overlap
pub mod Claims
