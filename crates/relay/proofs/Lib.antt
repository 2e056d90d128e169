pub mod Packs
pub mod Unpacks
