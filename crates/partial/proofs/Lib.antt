pub mod Draws
pub mod Falls
