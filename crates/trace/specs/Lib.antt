pub mod Step
pub mod Fit
pub mod Answers
