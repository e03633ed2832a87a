pub mod Found
pub mod Attr
pub mod Walk
pub mod Barred
