pub mod Mark
pub mod Padded
pub mod Returned
pub mod inside
