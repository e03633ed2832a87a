pub mod Laws
pub mod Places
pub mod Pairs
pub mod Over
pub mod Copied
pub mod Block
