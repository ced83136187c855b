pub mod AsRead
pub mod Follows
pub mod Ordered
pub mod Places
pub mod Puts
pub mod Signed
pub mod Swaps
pub mod Tables
