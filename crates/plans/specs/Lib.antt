pub mod Refusals
pub mod Steps
pub mod Plans
pub mod Runs
