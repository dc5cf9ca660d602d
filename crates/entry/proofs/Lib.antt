pub mod Basics
pub mod Filled
pub mod Fullness
pub mod Claims
