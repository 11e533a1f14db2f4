pub mod CallLaws
pub mod CountLaws
pub mod ExternLaws
pub mod FieldLaws
pub mod GroupLaws
