pub mod Shows
pub mod One
