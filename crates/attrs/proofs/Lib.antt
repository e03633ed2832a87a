pub mod Values
pub mod Pairs
pub mod Keys
pub mod Turns
pub mod Walks
pub mod Examples
pub mod Scan
pub mod AsItStands
