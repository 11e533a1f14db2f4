pub mod ReadExtern
pub mod ReadImport
pub mod ReadType
pub mod inside
