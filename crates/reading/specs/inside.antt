pub mod Few
pub mod Stages
pub mod Steps
pub mod Tried
pub mod Try
