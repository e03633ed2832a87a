pub mod Range
pub mod Utf8
pub mod Pass
pub mod Space
pub mod Escape
pub mod Decimal
