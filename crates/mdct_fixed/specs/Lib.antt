pub mod Digits
pub mod Exchanges
pub mod Joins
pub mod Mdct
pub mod Numbers
pub mod Rows
pub mod Transform
