pub mod Columns
pub mod Following
pub mod Refusals
pub mod Walks
