pub mod Answers
pub mod One
