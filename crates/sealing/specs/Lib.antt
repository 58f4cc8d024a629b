pub mod Completion
pub mod Forks
pub mod Questions
