pub mod Refusal
pub mod Rows
