pub mod Run
pub mod Compress
pub mod Expand
pub mod Has
pub mod InBytes
pub mod Walk
