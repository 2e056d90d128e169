pub mod Lines
pub mod Bodies
