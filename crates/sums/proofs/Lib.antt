pub mod WordSum
