pub mod Fill
pub mod Read
pub mod Scan
pub mod Seen
pub mod inside
