pub mod Call
pub mod One
