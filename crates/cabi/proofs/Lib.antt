pub mod CallLaws
pub mod ReadyLaws
