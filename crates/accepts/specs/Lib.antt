pub mod Proviso
pub mod Sound
pub mod Ends
pub mod Samples
