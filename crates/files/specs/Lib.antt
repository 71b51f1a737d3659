pub mod Outcomes
pub mod File
