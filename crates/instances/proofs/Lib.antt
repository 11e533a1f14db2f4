pub mod InstanceLaws
pub mod LaidLaws
pub mod Productions
pub mod Rows
