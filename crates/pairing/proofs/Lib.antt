pub mod Rows
pub mod Paired
pub mod Plain
