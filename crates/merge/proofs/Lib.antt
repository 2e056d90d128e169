pub mod Looking
pub mod Finding
pub mod Marking
pub mod Walking
pub mod Writing
pub mod Checking
pub mod Merged
