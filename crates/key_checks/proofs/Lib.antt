pub mod Checks
pub mod KeySound
pub mod Reasons
pub mod Faults
pub mod Idle
