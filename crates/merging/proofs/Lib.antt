pub mod Listing
pub mod Ordered
pub mod Rises
pub mod Answers
pub mod Theorems
pub mod Bounded
pub mod Runs
