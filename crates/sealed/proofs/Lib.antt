pub mod Beginning
pub mod Checking
pub mod Lawful
pub mod Plainness
pub mod Walking
