pub mod Places
pub mod Rows
pub mod Connections
pub mod Examples
