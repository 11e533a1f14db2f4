pub mod BeginLaws
pub mod CallLaws
pub mod CountLaws
pub mod OptionLaws
pub mod ShortLaws
