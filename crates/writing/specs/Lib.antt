pub mod Signs
pub mod Wrote
