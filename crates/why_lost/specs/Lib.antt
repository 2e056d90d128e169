pub mod WhyLost
pub mod Steps
pub mod Theorems
