pub mod Signs
pub mod Joins
pub mod Parts
pub mod Entries
pub mod OffBytes
pub mod Stems
pub mod Tape
