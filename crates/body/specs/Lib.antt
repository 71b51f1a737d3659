pub mod Open
pub mod Ends
