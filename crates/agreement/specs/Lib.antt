pub mod Places
pub mod Sealing
