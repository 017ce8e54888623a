pub mod Sum
pub mod Parts
pub mod Reduced
pub mod Groups
