pub mod Walk
pub mod Written
pub mod Attrs
