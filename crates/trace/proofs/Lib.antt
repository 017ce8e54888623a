pub mod Each
pub mod Hex
pub mod Line
pub mod Read
pub mod Write
pub mod RoundTrip
pub mod Offset
