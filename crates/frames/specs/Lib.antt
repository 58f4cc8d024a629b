pub mod Agreements
pub mod Asks
pub mod Meanings
pub mod Next
