pub mod Read
pub mod Reply
pub mod Sheet
pub mod State
pub mod inside
