pub mod Finite
pub mod Scan
pub mod Tops
