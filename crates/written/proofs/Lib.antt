pub mod Works
pub mod Finish
pub mod Again
