pub mod Decimal
pub mod Pieces
pub mod Lent
pub mod Longest
