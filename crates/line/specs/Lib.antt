pub mod Decimals
pub mod Lines
pub mod Longest
pub mod Pieces
pub mod Placed
pub mod Reached
