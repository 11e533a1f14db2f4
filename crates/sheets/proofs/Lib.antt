mod Whole
pub mod FamilyLaws
pub mod FinishLaws
pub mod FrameLaws
pub mod LaidLaws
pub mod MakeLaws
pub mod SheetLaws
