pub mod Listing
pub mod Turn
pub mod Run
pub mod Calls
pub mod Input
pub mod Listed
