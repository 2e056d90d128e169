pub mod Gathering
pub mod OneRun
pub mod Copying
