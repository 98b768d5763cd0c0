pub mod Costs
pub mod Rows
pub mod Tables
pub mod Vectors
