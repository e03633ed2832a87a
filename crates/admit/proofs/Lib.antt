pub mod All
pub mod LabelsRule
pub mod Answers
pub mod Decide
pub mod Examples
pub mod Utf8
pub mod Gives
