pub mod Numbers
pub mod History
pub mod Places
pub mod Demand2
pub mod Records
pub mod Kept
