pub mod Calls
pub mod Laws
pub mod Promises
pub mod Owed
pub mod Parts
pub mod Places
