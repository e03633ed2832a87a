pub mod Joined
pub mod Views
