pub mod Kind
pub mod Flag
pub mod Category
pub mod Element
pub mod Found
pub mod File
pub mod Tree
pub mod Name
