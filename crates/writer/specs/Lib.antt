pub mod Steps
pub mod States
