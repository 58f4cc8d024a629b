pub mod Contents
pub mod Values
pub mod Rests
pub mod Week
