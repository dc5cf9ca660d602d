pub mod Measurable
pub mod Nan
