pub mod Output
pub mod Fields
pub mod Lines
pub mod Steps
pub mod Unread
