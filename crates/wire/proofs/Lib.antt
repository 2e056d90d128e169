pub mod Words
pub mod Turning
pub mod Lent
pub mod Spelled
pub mod Filling
pub mod Storage
pub mod Writes
