pub mod Specials
pub mod Rows
pub mod Places
pub mod Keys
pub mod Nodes
pub mod One
