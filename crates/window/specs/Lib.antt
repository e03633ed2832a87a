pub mod Page
pub mod Plain
