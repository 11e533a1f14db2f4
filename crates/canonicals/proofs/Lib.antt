pub mod ClassLaws
pub mod LiftedLaws
pub mod Productions
pub mod Rows
