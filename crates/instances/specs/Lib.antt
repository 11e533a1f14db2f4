pub mod Table
pub mod Write
pub mod inside
