pub mod Tape
pub mod Scans
pub mod Faults
pub mod Samples
pub mod Outcome
pub mod First
