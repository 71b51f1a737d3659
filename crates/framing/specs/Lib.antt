pub mod Image
pub mod Next
pub mod Cuts
