pub mod Hex
pub mod Line
pub mod Read
pub mod Write
pub mod Offset
pub mod RoundTrip
