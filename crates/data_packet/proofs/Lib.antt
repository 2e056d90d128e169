pub mod Fields
pub mod Read
pub mod Write
pub mod RoundTrip
pub mod Family
