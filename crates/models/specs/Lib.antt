pub mod Expressions
pub mod Folds
pub mod Marks
pub mod Readers
pub mod Rests
pub mod Tables
pub mod Turns
