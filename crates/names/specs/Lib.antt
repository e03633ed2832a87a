pub mod Finding
pub mod Hits
