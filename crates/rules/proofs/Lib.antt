pub mod Tapes
pub mod First
pub mod Machine
pub mod Counts
pub mod Laws
