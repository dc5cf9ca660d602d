pub mod Declaration
pub mod Claims
