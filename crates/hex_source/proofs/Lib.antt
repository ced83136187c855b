pub mod Letterwise
pub mod Parsed
pub mod Piecewise
pub mod Plainly
