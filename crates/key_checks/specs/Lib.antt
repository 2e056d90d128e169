pub mod KeyChecks
pub mod Reasons
