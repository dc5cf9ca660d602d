pub mod Message
pub mod Read
pub mod Trips
pub mod Claims
