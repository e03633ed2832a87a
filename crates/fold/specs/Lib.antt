pub mod Fold
pub mod Number
