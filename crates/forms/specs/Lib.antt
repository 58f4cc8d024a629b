pub mod Answers
pub mod Grammar
pub mod Inner
pub mod Numbers
pub mod Readers
pub mod Theorems
