pub mod First
pub mod Shape
pub mod Follow
pub mod Children
pub mod Label
pub mod Note
