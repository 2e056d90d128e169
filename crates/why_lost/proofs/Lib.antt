pub mod Searching
pub mod Asking
pub mod Theorems
pub mod Bounded
