pub mod Places
pub mod Matches
pub mod Rows
pub mod Connections
pub mod Examples
