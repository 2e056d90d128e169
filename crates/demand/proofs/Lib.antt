pub mod Increasing
pub mod Accepts
pub mod Least
pub mod Longest
pub mod Return
pub mod Demand
pub mod Draft
pub mod DemandBytes
