pub mod Flat
pub mod Headers
pub mod Places
pub mod Bodies
pub mod Traces
