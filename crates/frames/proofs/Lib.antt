pub mod Agreeing
pub mod Ranges
