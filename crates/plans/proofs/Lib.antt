pub mod Handing
pub mod Keeping
pub mod Passes
pub mod Prefixes
pub mod Walks
