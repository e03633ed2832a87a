pub mod Draft
pub mod Fault
pub mod Grown
pub mod Rebuild
