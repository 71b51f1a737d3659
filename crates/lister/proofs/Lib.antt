pub mod Onward
pub mod Room
pub mod Said
pub mod Walking
pub mod Bytes
pub mod Telling
pub mod Hearing
pub mod Listed
