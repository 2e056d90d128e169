pub mod Handshake
pub mod Theorems
