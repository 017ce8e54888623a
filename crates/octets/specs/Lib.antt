pub mod Octets
pub mod Digits
pub mod BigEndian
pub mod LittleEndian
pub mod Overwrite
