pub mod Bytes
pub mod Writes
pub mod Done
pub mod Grouped
pub mod Apart
pub mod Chunks
