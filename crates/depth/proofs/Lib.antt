pub mod Members
pub mod Inline
pub mod Blocks
pub mod Enough
