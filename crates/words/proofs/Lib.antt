pub mod Listed
pub mod Laws
pub mod Bytes
pub mod Claims
