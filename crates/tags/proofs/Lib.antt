pub mod Laws
pub mod Tokens
pub mod ReadBack
pub mod Exact
pub mod Rendered
