pub mod Declared
pub mod Claims
