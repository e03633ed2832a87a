pub mod Element
pub mod Names
pub mod Form
pub mod Write
pub mod Items
