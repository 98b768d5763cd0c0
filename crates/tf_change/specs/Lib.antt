pub mod Haar
pub mod Order
