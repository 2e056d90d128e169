pub mod Merging
pub mod Theorems
pub mod Steps
