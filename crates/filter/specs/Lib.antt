pub mod Length
pub mod Call
pub mod Decision
pub mod Ignored
pub mod Order
