pub mod Laws
pub mod NameRule
pub mod Walk
pub mod Placed
