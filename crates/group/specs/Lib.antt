pub mod Group
pub mod Theorems
