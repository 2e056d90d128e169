pub mod Codings
pub mod Heads
pub mod Tallies
pub mod Judging
pub mod Expanding
