pub mod Paint
pub mod Run
pub mod Escape
pub mod Decimal
pub mod Front
