pub mod Facts
pub mod Admits
pub mod Keep
