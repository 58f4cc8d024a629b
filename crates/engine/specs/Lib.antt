pub mod Atoms
pub mod Languages
pub mod Trees
