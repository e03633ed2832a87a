pub mod Chains
pub mod Shown
pub mod Strokes
