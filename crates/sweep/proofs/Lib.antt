pub mod Places
pub mod Carrying
pub mod Settling
pub mod Core
