pub mod Answer
pub mod Shown
