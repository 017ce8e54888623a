pub mod Default
pub mod Examples
pub mod Fins
pub mod Stages
pub mod Sound
