pub mod KeyLaws
pub mod Unpacks
