pub mod Examples
pub mod Grammar
pub mod Places
pub mod Readers
pub mod Theorems
pub mod Values
