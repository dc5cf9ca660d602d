pub mod Unmoved
pub mod Twins
pub mod Final
pub mod Consumed
pub mod Raised
pub mod Claims
