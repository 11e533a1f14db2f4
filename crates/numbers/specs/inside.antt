pub mod Below
pub mod Over
pub mod Sequence
pub mod Sequences
pub mod Windows
