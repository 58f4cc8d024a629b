pub mod Bytes
pub mod Comments
pub mod Lists
pub mod Names
pub mod Readings
pub mod Spans
