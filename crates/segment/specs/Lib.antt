pub mod Flags
pub mod Readable
