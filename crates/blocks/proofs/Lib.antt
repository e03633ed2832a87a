pub mod Places
pub mod Steps
