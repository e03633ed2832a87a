pub mod Calls
pub mod Again
