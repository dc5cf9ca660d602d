pub mod Product
pub mod Ordered
