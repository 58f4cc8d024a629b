pub mod Lengths
pub mod Pieces
pub mod Reading
pub mod Spelling
pub mod Verbatims
pub mod Whole
