pub mod Law
pub mod Tally
