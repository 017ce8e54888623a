pub mod Collected
pub mod Fields
pub mod Growth
pub mod RoundTrip
pub mod Steps
pub mod Taken
pub mod Written
