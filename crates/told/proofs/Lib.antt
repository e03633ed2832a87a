pub mod Reviews
pub mod One
