pub mod Run
pub mod Stages
