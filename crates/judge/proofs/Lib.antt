pub mod NodeRule
pub mod NumberRule
pub mod Bridge
