pub mod WellFormed
pub mod Whole
pub mod Draft
