pub mod Lists
pub mod Rows
pub mod Characters
pub mod Laws
pub mod Passes
pub mod White
pub mod Escapes
pub mod Digits
