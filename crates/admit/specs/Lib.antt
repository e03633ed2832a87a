pub mod Limits
pub mod Rules
pub mod Pieces
pub mod Refusal
pub mod Decide
pub mod Encode
