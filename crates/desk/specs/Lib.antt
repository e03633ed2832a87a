pub mod Desk
pub mod Stroke
pub mod Named
