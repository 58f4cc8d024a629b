pub mod Answers
pub mod Contents
pub mod Grammar
pub mod Inner
pub mod Models
pub mod Readers
pub mod Theorems
pub mod Writers
