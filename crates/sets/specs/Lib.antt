pub mod Descriptors
pub mod Samples
pub mod ChannelSets
