pub mod Bytes
pub mod Lent
pub mod Storage
