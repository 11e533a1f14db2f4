pub mod Agree
pub mod Binary
pub mod Judge
pub mod Largest
pub mod Row
pub mod Sizes
pub mod Write
pub mod inside
