pub mod Choice
pub mod Theorems
