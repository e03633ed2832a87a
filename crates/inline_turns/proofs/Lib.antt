pub mod Sorts
pub mod Laws
