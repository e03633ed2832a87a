pub mod Body
pub mod Easy
pub mod Edge
pub mod Frame
