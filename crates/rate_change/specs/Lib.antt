pub mod Digits
pub mod Parts
pub mod Rates
pub mod Ratios
pub mod Resampling
pub mod Tables
