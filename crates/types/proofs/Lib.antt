pub mod CountedLaws
pub mod FunctionLaws
pub mod KindLaws
pub mod Productions
pub mod Rows
pub mod SmallLaws
pub mod StepLaws
