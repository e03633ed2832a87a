pub mod Holders
pub mod Rows
