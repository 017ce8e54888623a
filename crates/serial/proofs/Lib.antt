pub mod Compared
pub mod Ring
pub mod Serial
