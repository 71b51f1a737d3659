pub mod Orders
pub mod Clears
