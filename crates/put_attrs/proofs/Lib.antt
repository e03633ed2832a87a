pub mod Written
pub mod Listed
pub mod Along
