pub mod Slices
pub mod Parts
