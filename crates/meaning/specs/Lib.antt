pub mod Slot
pub mod Layout
pub mod Book
pub mod Legal
pub mod Opening
pub mod Claims
