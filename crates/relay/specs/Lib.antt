pub mod Lists
pub mod Lost
pub mod Merged
