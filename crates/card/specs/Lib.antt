pub mod Card
pub mod Count
pub mod Claims
