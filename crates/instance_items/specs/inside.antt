pub mod Extern
pub mod Group
pub mod Kind
