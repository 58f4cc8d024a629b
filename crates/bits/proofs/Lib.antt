pub mod Bits
pub mod Exclusive
pub mod Sets
