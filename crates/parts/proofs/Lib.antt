pub mod Fits
pub mod SliceLaws
