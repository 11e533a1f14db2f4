pub mod Group
pub mod Import
pub mod Item
