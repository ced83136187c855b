pub mod Law
pub mod Lists
pub mod Tally
