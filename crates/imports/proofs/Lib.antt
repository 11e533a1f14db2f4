pub mod ImportLaws
pub mod Productions
pub mod ReferenceLaws
pub mod Rows
pub mod SomeLaws
