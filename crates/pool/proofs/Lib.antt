pub mod Follows
pub mod Sweeps
pub mod Thirds
