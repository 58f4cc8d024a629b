pub mod Rights
pub mod Documents
pub mod Stories
pub mod Slices
