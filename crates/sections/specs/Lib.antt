pub mod Finish
pub mod Runs
pub mod Section
pub mod Steps
pub mod inside
