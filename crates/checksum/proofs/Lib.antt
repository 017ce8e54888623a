pub mod Reduced
pub mod Groups
pub mod Parts
pub mod Numbers
