pub mod BegunFresh
pub mod FamilyLaws
pub mod FrameLaws
pub mod StepLaws
pub mod StepsAreRow
pub mod TurnLaws
