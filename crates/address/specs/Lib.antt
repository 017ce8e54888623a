pub mod Address
pub mod Flows
