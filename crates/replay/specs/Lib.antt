pub mod Printed
pub mod Feed
pub mod Run
pub mod Written
