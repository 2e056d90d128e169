pub mod DataLaws
pub mod Unpacks
pub mod TenWords
