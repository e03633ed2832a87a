pub mod Written
pub mod Opens
pub mod Closes
pub mod Leaves
pub mod Splits
