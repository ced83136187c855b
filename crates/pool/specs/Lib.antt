pub mod Stages
pub mod Debts
pub mod State
pub mod Calls
pub mod Plans
