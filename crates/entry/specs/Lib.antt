pub mod Lists
pub mod Entry
pub mod Claims
