mod Reading
mod Shortest
mod TextChunks
mod TextRows
mod TextWindows
mod ThreeBytes
mod Vectors
pub mod AgainLaws
pub mod Beginnings
pub mod BytesLaws
pub mod CopyLaws
pub mod ExactLaws
pub mod Impossible
pub mod IntegerLaws
pub mod LebLaws
pub mod OutcomeLaws
pub mod SeenLaws
pub mod TextLaws
