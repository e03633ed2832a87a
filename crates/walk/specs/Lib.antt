pub mod Shows
pub mod Asked
