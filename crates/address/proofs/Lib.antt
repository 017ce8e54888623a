pub mod Laws
pub mod Flows
