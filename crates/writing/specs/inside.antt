pub mod Extern
pub mod Rows
pub mod Size
pub mod Wrote
