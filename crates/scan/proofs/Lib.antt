pub mod Choices
pub mod Shapes
pub mod Keep
pub mod Fold
