pub mod Folding
pub mod Numbers
pub mod Examples
