pub mod ReadBack
pub mod Fits
