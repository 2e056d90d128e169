pub mod Listed
pub mod Top
pub mod Verdicts
pub mod Theorems
pub mod Editions
