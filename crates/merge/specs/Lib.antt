pub mod Walk
pub mod Check
