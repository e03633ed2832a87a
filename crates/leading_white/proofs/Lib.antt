pub mod Leans
pub mod Found
