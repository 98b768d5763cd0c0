pub mod Calm
pub mod Masks
pub mod Noise
pub mod Spreading
pub mod Stereo
