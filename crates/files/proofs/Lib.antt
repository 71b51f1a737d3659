pub mod Items
pub mod Blocks
pub mod Scans
pub mod Traces
pub mod ScanPlaces
pub mod TracePlaces
pub mod Closes
pub mod Form
