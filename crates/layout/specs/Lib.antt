pub mod Bytes
pub mod Layout
pub mod Steps
