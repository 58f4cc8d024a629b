pub mod Meaning
pub mod Naming
pub mod Sealing
pub mod Trees
