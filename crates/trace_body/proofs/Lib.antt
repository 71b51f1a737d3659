pub mod Choices
pub mod BlockEnds
