pub mod Comb
pub mod Deemphasis
pub mod Samples
