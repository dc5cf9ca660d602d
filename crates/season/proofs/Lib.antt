pub mod Mail
pub mod Calls
pub mod Steps
pub mod Copies
pub mod Repeat
pub mod Outbox
pub mod Season
