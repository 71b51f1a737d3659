pub mod Calls
pub mod Bulk
pub mod Spots
pub mod Starts
