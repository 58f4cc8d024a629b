pub mod Nest
