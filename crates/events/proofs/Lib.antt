pub mod Emits
pub mod Turns
pub mod Answered
pub mod More
