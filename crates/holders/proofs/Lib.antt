pub mod Tags
pub mod Finds
pub mod TableTags
pub mod Frame
