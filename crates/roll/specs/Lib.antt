pub mod Rank
pub mod Roll
pub mod Plain
pub mod Season
pub mod Cases
pub mod Claims
