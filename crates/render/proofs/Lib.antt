pub mod Shapes
pub mod Finds
pub mod Follows
pub mod Labels
pub mod Notes
pub mod Examples
