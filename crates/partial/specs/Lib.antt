pub mod Obligations
pub mod State
pub mod Calls
pub mod Plans
