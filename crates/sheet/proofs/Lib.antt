pub mod Measurable
pub mod Exactly
pub mod Limits
pub mod Gates
pub mod OneForm
pub mod Claims
pub mod Finite
pub mod Order
