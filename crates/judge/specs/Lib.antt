pub mod Phase
pub mod Tests
pub mod Numbers
