pub mod Coding
pub mod Items
