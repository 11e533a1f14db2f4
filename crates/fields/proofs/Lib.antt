pub mod OutcomeLaws
pub mod GradeLaws
pub mod LoopLaws
pub mod NearLaws
pub mod RunLaws
pub mod StageLaws
pub mod WidthLaws
