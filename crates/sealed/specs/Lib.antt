pub mod Checks
pub mod Refusals
pub mod Texts
