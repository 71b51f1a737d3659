pub mod Places
pub mod Indexes
pub mod Inverse
