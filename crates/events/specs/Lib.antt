pub mod Event
pub mod Pairing
pub mod Walk
pub mod Text
pub mod Profile
pub mod Emit
pub mod Tapes
pub mod Rows
