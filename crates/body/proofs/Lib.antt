pub mod BlockEnds
pub mod Opens
