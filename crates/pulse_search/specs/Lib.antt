pub mod Angles
pub mod Pulses
