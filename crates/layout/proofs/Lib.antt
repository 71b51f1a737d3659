pub mod Facts
pub mod SetLaws
pub mod Inverses
pub mod WordLaws
