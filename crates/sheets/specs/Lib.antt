pub mod Frame
pub mod Sheet
pub mod inside
