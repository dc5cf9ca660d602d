pub mod Sample
pub mod Means
pub mod Counts
pub mod PowerCut
pub mod Liar
pub mod Plain
pub mod Split
pub mod Claims
