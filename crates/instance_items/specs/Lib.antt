pub mod ReadInstance
pub mod inside
