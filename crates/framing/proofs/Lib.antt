pub mod Length
pub mod Bytewise
pub mod Portions
pub mod Framed
pub mod Forward
