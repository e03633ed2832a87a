pub mod StepRule
pub mod One
