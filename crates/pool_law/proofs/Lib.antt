pub mod Below
pub mod Beside
pub mod Laws
pub mod Legs
pub mod Pools
pub mod Promises
pub mod Raised
