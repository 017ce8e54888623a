pub mod Digits
pub mod Overwrite
pub mod Text
pub mod Agree
pub mod BigEndian
pub mod Library
pub mod LittleEndian
pub mod Octets
