pub mod Entities
pub mod Productions
