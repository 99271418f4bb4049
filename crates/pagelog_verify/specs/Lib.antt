pub mod Items
pub mod File
pub mod Answer
pub mod Texts
