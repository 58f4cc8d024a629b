pub mod Completing
pub mod Firsts
pub mod Forking
pub mod Marking
pub mod Taking
