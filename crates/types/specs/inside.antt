pub mod Function
pub mod Optional
