pub mod Ring
pub mod Serial
