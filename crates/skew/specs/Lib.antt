pub mod Skews
pub mod Times
