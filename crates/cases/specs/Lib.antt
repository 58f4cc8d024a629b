pub mod Histories
pub mod Refusals
pub mod Answers
pub mod Lists
