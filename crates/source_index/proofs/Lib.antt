pub mod Dulls
pub mod Firsts
pub mod Blocks
pub mod Runs
pub mod Spans
