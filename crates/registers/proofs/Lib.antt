pub mod Rounding
pub mod Rows
pub mod Images
pub mod Signed
