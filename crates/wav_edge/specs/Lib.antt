pub mod Cursors
pub mod Fields
pub mod Files
pub mod Parts
pub mod Readers
pub mod Reading
pub mod Samples
pub mod Spellings
